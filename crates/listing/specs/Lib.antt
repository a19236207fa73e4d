pub mod Edges
pub mod Listings
pub mod Names
pub use Rattle.parser.specs.declared.Table
pub use Rattle.parser.specs.declared.Variable
