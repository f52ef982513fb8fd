pub mod Calm
pub mod Lines
pub mod Refusals
