pub mod Results
pub mod Transactions
pub mod Running
pub mod Starts
pub mod Playing
