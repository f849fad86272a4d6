pub mod Tree
pub mod BlockCodes
pub mod Codes
