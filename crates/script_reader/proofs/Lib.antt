pub mod FormReads
pub mod ClientNames
pub mod LineByLine
pub mod PublicLaws
