pub mod WordClones
pub mod WordEquals
pub mod RequestClones
pub mod RequestEquals
pub mod Clones
pub mod Equals
