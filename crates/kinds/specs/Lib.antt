pub mod Limits
pub mod Kinds
pub mod Values
pub mod Laws
pub mod Texts
