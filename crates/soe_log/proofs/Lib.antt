pub mod Finding
pub mod Growing
pub mod Logs
pub mod Walking
pub mod Whole
