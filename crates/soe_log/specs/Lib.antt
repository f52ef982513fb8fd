pub mod Changes
pub mod EventText
pub mod Inner
pub mod Plays
pub mod Recording
