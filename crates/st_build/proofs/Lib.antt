pub mod Keeping
pub mod Refusing
pub mod Leaving
pub mod Carrying
pub mod Crossing
