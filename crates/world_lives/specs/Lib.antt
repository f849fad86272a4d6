pub mod Life
pub mod Order
pub mod Told
pub mod Steps
