pub mod Rows
pub mod Plants
pub mod Programs
pub mod Scripts
