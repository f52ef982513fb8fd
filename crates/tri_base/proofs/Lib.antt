pub mod Digits
pub mod NameBytes
pub mod Places
