pub mod Data
pub mod Frames
pub mod Inner
pub mod Laws
pub mod Reads
pub mod Replies
pub mod ReplyLines
