pub mod IndexKept
pub mod MadeRows
pub mod OnDisk
pub mod SameBlocks
