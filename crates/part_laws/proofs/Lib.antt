pub mod States
pub mod AsKinds
pub mod Within
pub mod Looks
pub mod Own
pub mod Refused
pub mod Releases
pub mod Walks
