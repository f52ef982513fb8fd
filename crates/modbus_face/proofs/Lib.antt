pub mod Framed
pub mod Lengths
pub mod Steps
pub mod Values
