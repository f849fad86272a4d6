pub mod Cancels
pub mod RowsOfBlocks
