pub mod Logged
pub mod Passes
pub mod Commits
pub mod Adding
