pub mod Stepping
pub mod Inner
