pub mod Canonical
pub mod Inner
