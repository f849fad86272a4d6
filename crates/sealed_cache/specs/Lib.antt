pub mod Lists
pub mod Caches
pub mod Sealed
pub mod Numbered
pub mod Codes
pub mod Lent
