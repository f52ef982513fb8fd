pub use Rattle.st_core.specs.Core
pub use Rattle.st_core.specs.Memory
pub use Rattle.st_core.specs.Fits
pub use Rattle.st_meaning.specs.Programs
pub use Rattle.tag_layout.specs.Layout
pub mod Shapes
pub mod Laws
