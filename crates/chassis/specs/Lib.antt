pub mod Inner
pub mod Points
pub mod Ranges
