pub mod Started
pub mod Committed
