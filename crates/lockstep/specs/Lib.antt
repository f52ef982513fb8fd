pub mod Starting
pub mod Refusals
pub mod Following
pub mod Inner
