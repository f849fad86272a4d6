pub mod FilesTelling
pub mod FilesBegin
