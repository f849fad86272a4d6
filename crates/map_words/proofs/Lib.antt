pub mod ById
pub mod Entries
pub mod Finds
pub mod Made
pub mod Maps
pub mod Ranges
pub mod Values
pub mod Results
