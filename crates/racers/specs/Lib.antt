pub mod Lives
pub mod Steps
pub mod Growing
pub mod Lines
