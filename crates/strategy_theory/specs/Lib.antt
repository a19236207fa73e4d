pub mod Strategies
pub mod Solving
pub mod Sweeping
pub mod Theory
pub mod Lives
pub mod Promises
pub mod Steps
pub mod Calls
