pub mod AtPlaces
pub mod Lent
pub mod Stepped
pub mod Shown
