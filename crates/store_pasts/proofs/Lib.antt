pub mod Laters
pub mod Over
pub mod Sayings
