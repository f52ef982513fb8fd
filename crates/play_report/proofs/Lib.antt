pub mod Growing
pub mod Starting
pub mod Ended
pub mod Written
