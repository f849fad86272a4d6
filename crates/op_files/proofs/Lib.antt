pub mod OneBlock
pub mod PlainStates
