pub mod Machines
pub mod Dumps
pub mod Codes
