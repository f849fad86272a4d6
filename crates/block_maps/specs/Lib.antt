pub mod Chunks
pub mod DiskIndexes
