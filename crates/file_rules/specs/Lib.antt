pub mod Finds
pub mod Placing
pub mod Stages
pub mod StagesInside
pub mod Open
pub mod Append
pub mod Blocks
pub mod Read
