pub mod Lines
pub mod Words
pub mod Order
pub mod Statements
