pub mod Lines
pub mod Ready
pub mod Closed
pub mod Standing
pub mod Done
pub mod Passes
