pub mod ChunkFront
pub mod DiskIndexes
pub mod MapRows
