pub mod ByNumber
pub mod Names
