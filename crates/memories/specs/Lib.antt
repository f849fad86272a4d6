pub mod Knowing
pub mod Codes
