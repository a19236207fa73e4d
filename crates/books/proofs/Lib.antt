pub mod Order
pub mod Worth
pub mod Sizes
pub mod Bests
pub mod Evaluating
pub mod Asked
pub mod Rows
pub mod Fits
