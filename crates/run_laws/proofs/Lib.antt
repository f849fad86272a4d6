pub mod Turns
pub mod Serials
pub mod Own
pub mod Learns
pub mod MomentsKeep
pub mod RunsKeep
pub mod Grants
