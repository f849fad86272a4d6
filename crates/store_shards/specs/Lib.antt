pub mod Shards
pub mod Runs
pub mod Rows
