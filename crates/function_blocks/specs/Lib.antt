pub mod Values
pub mod Arithmetic
pub mod Fields
pub mod Blocks
