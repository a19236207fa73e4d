pub mod Sessions
pub mod Comparisons
pub mod Simulations
pub mod ReportLines
pub mod Trials
