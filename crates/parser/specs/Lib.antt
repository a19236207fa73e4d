pub mod Models
pub mod Outlines
pub mod Scripts
