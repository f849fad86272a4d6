pub mod Limited
pub mod Renamed
pub mod SameDirs
