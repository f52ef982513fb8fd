pub mod Outputs
pub mod Playing
pub mod Inner
