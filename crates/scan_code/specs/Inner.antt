-- The code of pieces of a program, and what names stand for in it. Nobody has to believe what stands here: it serves
-- private functions alone.
pub mod Found
pub mod Operators
pub mod Emits
pub mod GuardCodes
