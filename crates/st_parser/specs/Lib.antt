pub mod Parsing
pub mod TreeLaws
pub mod Inner
