pub mod PlacesReply
pub mod Stories
pub mod Gathered
