pub mod Alone
pub mod Sorted
pub mod ByDisk
pub mod Dumped
pub mod Elsewhere
