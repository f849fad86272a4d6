pub mod ByDisk
pub mod OnceEach
