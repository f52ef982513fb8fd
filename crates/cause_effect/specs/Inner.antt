-- What code that takes a line or writes one ensures. It serves private functions alone: nobody has to believe it.
pub mod Entries
pub mod Steps
pub mod Terms
