pub mod Statuses
pub mod Modes
pub mod RaceEnds
pub mod Refusals
pub mod Headline
