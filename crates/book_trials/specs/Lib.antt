pub mod Keys
pub mod Makers
pub mod DrawnBooks
pub mod WellFormed
pub mod Solved
