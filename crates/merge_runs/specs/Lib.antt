pub mod IsKeyed
pub mod Keyed
pub mod Merged
pub mod Splits
pub mod MergedRuns
pub mod Walks
