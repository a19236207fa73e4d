pub mod Systems
pub mod Descending
pub mod DepthLaws
pub mod Play
pub mod Resting
pub mod Scripts
pub mod Shown
