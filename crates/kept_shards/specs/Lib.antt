pub mod KeptStore
pub mod Inside
