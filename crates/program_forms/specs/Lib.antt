pub mod Lacks
pub mod Appends
pub mod Memories
pub mod Kinds
