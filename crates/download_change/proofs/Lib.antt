pub mod Walks
pub mod OneHeir
pub mod SameTypes
pub mod Reading
pub mod Parts
pub mod Tabled
pub mod Examples
