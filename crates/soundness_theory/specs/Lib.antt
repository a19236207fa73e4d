pub mod Runs
pub mod Intervals
pub mod Findings
pub mod Questions
pub mod Kept
pub mod Sources
pub use Rattle.script_equations_theory.specs.Bounds
pub use Rattle.script_equations_theory.specs.Grades
