pub mod Grown
pub mod Orders
pub mod Owning
pub mod MomentOrders
pub mod MomentsTold
pub mod Tellings
pub mod Running
