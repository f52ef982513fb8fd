pub mod VotedSheets
pub mod Marks
pub mod Runs
pub mod Inner
