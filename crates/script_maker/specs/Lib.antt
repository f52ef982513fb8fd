pub mod Plants
pub mod Programs
pub mod Generated
pub mod Inner
