pub mod Declaring
pub mod Exits
pub mod Sentences
pub mod Naming
pub mod Keeping
pub mod Siding
pub mod Guarding
pub mod Verdict
