pub mod Commits
pub mod Serving
pub mod Losses
