pub mod Codes
pub mod Dumps
