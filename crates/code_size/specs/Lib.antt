pub use Rattle.st_core.specs.Core
pub use Rattle.st_core.specs.Costs
pub use Rattle.st_meaning.specs.Expressions
pub use Rattle.st_meaning.specs.Statements
pub mod Limits
pub mod Inner
