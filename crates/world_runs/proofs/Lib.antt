pub mod Actors
pub mod Limits
pub mod Prompt
pub mod Refusals
