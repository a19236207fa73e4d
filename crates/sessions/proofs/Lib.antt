pub mod Carrying
pub mod Standing
pub mod Asked
pub mod IntervalOf
pub mod GradeOf
pub mod Filling
pub mod FindingsOf
pub mod Rows
