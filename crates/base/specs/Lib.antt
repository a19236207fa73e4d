pub mod Reasons
pub mod Fronts
pub mod Refusals
