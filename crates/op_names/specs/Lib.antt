pub mod Shards
pub mod Ways
pub mod Going
pub mod Plain
pub mod OneBlock
pub mod RunningInside
pub mod Looking
