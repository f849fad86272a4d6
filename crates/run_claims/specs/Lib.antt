pub mod Bounds
pub mod Complete
pub mod Claims
