pub mod Answers
pub mod Analyses
pub mod Whole
pub use Rattle.strategy_theory.specs.Calls
pub use Rattle.strategy_theory.specs.Lives
pub use Rattle.strategy_theory.specs.Promises
pub use Rattle.strategy_theory.specs.Theory
