pub mod Words
pub mod Parts
pub mod Marks
pub mod Reader
pub mod Gaps
