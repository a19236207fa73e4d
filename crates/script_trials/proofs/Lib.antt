pub mod Asking
pub mod Texts
pub mod Equal
pub mod Keeping
