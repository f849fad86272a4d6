pub mod Contents
pub mod Pasts
pub mod AskSafely
pub mod Tracks
pub mod Headlines
