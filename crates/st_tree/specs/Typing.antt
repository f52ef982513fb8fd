-- Typing: which typing rules a program breaks, and which of them is the first.
pub mod Faults
pub mod Points
pub mod Literals
pub mod Operands
pub mod Names
pub mod Functions
pub mod Expressions
pub mod Statements
pub mod Declarations
pub mod Programs
pub mod TypedPrograms
