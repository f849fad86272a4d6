pub mod Begins
pub mod RunsFall
pub mod Stays
pub mod PartsFall
