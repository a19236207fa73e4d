pub mod Intervals
pub mod Readings
pub mod Results
