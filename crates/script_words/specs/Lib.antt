pub mod WordText
pub mod LimitText
pub mod Splitting
pub mod WordForm
pub mod WordList
