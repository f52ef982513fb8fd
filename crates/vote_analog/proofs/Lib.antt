pub mod Between
pub mod Ranges
