pub mod CommonDrives
pub mod Inner
pub mod Lent
