pub mod Codec
pub mod Paired
pub mod Said
pub mod Spelling
pub mod Tails
