pub mod Following
pub mod Weaving
pub mod Shown
pub mod Rooms
