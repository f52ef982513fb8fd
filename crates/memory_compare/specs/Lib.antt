pub mod Changes
pub mod Inner
pub mod Judging
pub mod Windows
