pub mod Pushes
pub mod Keeping
pub mod Openings
pub mod Committing
pub mod AllKinds
pub mod Answered
pub mod Crossing
