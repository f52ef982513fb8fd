pub mod CheckText
pub mod Inner
