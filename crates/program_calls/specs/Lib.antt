pub mod Hearing
pub mod Keeping
