pub mod Between
pub mod Readings
pub mod Rows
pub mod Runs
pub mod Tables
pub mod Votes
pub mod Common
