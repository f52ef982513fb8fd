pub mod Ahead
pub mod Stands
pub mod Ends
pub mod Votes
pub mod Starts
pub mod Tapes
