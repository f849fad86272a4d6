pub mod RacerLines
pub mod Stories
pub mod Dumps
pub mod Endings
pub mod Playing
