pub mod Replay
pub mod Machines
pub mod Kept
pub mod Committed
pub mod Started
pub mod Asked
pub mod Committing
