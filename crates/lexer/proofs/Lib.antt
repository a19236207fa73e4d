pub mod Told
pub mod Reading
pub mod Parts
pub mod Loops
pub mod Finding
