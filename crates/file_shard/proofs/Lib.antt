pub mod SameFiles
