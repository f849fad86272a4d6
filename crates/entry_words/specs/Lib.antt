pub mod Moments
pub mod Labels
