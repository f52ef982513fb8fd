-- Numbers of the compiler's own: how many instructions pieces of code have, and what paths through them cost. Nobody
-- has to believe what stands here: it serves the compiler alone.
pub mod Sums
pub mod Functions
pub mod Ranks
pub mod Parts
pub mod Guards
pub mod Paths
