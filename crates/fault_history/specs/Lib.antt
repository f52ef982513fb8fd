pub mod AlarmTests
pub mod Histories
pub mod Notes
