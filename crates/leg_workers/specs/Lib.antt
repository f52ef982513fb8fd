pub mod Inner
pub mod Playing
pub mod Printing
pub mod Working
