pub mod Actors
pub mod Owns
pub mod Limits
pub mod OwnLines
pub mod Fronts
pub mod Prompt
pub mod Refusals
pub mod Standings
