pub mod Books
pub mod Forms
pub mod Questions
pub mod Entries
pub mod Fits
