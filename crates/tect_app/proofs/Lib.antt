pub mod Words
pub mod Inputs
pub mod Races
pub mod Cuts
