pub mod Facts
pub mod Plays
pub mod Quiet
pub mod Blocks
