pub mod Sessions
pub mod Answers
pub mod Whole
pub use Rattle.language_theory.specs.Graphs
pub use Rattle.language_theory.specs.Names
pub use Rattle.strategy_theory.specs.Lives
pub use Rattle.script_equations_theory.specs.Bounds
pub use Rattle.script_equations_theory.specs.Grades
