pub mod Teaching
pub mod MadeDirs
pub mod Readings
pub mod MadeBlocks
pub mod MadeFiles
