pub mod Layout
pub mod Worked
pub mod Inner
