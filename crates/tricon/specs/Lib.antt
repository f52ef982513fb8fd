pub mod Commands
pub mod Statuses
pub mod CommandRuns
pub mod Readings
pub mod Headline
pub mod Events
pub mod Answered
pub mod Inner
