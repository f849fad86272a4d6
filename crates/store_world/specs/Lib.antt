pub mod Sound
pub mod Kept
pub mod Acknowledged
pub mod RowHolds
