pub mod HaveRun
pub mod Told
pub mod Raced
pub mod Faults
pub mod EndedParts
