pub mod Inner
pub mod Events
pub mod Replies
