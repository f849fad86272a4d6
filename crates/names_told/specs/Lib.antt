pub mod NamesTelling
