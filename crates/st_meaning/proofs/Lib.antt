pub mod Dearest
pub mod Heights
pub mod LowStatements
pub mod Worked
