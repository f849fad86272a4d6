pub mod Taken
pub mod GivesPlan
