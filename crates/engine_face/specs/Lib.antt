pub mod Answers
pub mod Counting
pub mod Inner
pub mod Laws
pub mod Meaning
