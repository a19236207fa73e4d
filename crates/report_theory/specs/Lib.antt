pub mod Texts
pub mod Reports
pub mod Laws
pub mod Grading
pub mod Standing
pub mod Room
