pub mod Parts
pub mod Numerals
pub mod WordBytes
pub mod Apart
pub mod PathWords
pub mod HexWords
pub mod NumberWords
