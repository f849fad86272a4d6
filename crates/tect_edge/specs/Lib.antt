pub mod Counts
pub mod Gathering
pub mod Memory
pub mod Prefixes
pub mod Reading
