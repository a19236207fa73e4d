pub mod Grouping
pub mod Meaning
pub use Rattle.parser.specs.Models
pub use Rattle.parser.specs.declared.Variable
