pub mod LastNames
pub mod OneBlock
pub mod PlainStates
