pub mod RunningOut
pub mod InTime
pub mod Laws
