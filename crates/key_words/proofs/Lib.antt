pub mod BlockLookups
pub mod Counts
pub mod Lookups
