pub mod Lines
pub mod Settles
pub mod Reported
pub mod Scripts
pub use Rattle.kinds.specs.Limits
pub use Rattle.report_theory.specs.Laws
