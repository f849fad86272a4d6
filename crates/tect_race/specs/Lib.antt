pub mod Workers
pub mod Ready
pub mod Faults
pub mod Progress
pub mod Batches
