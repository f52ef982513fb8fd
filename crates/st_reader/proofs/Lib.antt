pub mod Lexing
pub mod Once
pub mod Fronts
pub mod Worked
