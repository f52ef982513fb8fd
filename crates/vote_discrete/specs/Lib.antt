pub mod Majority
pub mod Truths
