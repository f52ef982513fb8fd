pub use Rattle.st_tree.specs.Tags
pub use Rattle.st_tree.specs.Nesting
pub use Rattle.st_tree.specs.TreeNesting
pub use Rattle.st_core.specs.Compiled
pub use Rattle.st_core.specs.Fits
pub use Rattle.st_meaning.specs.Programs
pub use Rattle.tag_layout.specs.Layout
pub use Rattle.code_size.specs.Limits as Told
pub use Rattle.st_sound.specs.Shapes
pub mod Limits
pub mod Compiling
pub mod Inner
