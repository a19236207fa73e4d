pub mod DepthSizes
pub mod Drawings
pub mod ScriptsRest
pub mod Running
pub mod Whole
