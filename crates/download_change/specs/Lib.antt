pub mod Inner
pub mod Kept
pub mod Renames
pub mod Worked
