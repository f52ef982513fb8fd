pub mod Ends
pub mod Inner
pub mod NoteLinks
pub mod Posts
pub mod SentTaken
pub mod Settling
