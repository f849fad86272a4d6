pub mod Output
pub mod Replays
pub mod Plays
