pub mod Codes
pub mod DirDumps
pub mod Limits
pub mod Refusals
