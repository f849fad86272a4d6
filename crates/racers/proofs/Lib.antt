pub mod Growths
pub mod OneStep
pub mod Begun
pub mod Busy
pub mod RacerLaws
