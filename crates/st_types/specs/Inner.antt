-- What the checker keeps and passes on. It serves private functions alone: nobody has to believe it.
pub mod Firsts
pub mod Finds
pub mod Parts
pub mod Places
pub mod Summaries
