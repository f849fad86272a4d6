pub mod ClientStates
pub mod ClientLines
pub mod Playable
pub mod Standing
pub mod Woven
pub mod PartReports
