pub mod Restoring
pub mod Changes
