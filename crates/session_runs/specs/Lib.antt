pub mod Well
pub mod RunningOn
pub mod Session
