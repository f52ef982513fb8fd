pub mod Counts
pub mod Growing
pub mod Recorded
pub mod Times
pub mod Written
