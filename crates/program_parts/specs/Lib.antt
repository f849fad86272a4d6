pub mod Parts
pub mod Doings
pub mod Refused
pub mod Walks
pub mod Releases
