pub mod Asked
pub mod Names
pub mod Files
pub mod Blocks
pub mod Disks
pub mod Parts
pub mod Found
pub mod Rows
