pub mod Reading
pub mod LexLaws
pub mod Inner
