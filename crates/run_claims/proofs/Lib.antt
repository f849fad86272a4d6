pub mod RunsKeep
pub mod NoReads
pub mod RunsShort
pub mod Complete
pub mod Claims
