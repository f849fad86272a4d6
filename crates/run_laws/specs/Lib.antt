pub mod Pasts
pub mod Known
pub mod Laws
