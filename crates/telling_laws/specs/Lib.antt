pub mod MapValues
pub mod View
pub mod Telling
pub mod Following
pub mod Parts
