pub mod Joining
pub mod Ended
pub mod Settled
pub mod Rows
pub mod Running
pub mod Reporting
pub mod Composing
