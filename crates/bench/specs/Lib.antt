pub mod Shapes
pub mod Fitting
pub mod Largest
pub mod Asked
