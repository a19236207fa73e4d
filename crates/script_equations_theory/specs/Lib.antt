pub mod Bounds
pub mod Grades
