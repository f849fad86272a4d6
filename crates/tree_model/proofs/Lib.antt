pub mod SameDirs
pub mod SameFiles
pub mod Trees
