pub mod Inner
pub mod Matrices
pub mod Programs
pub mod Spells
pub mod Standing
pub mod Statements
