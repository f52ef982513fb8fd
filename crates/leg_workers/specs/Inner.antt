-- Nobody has to believe what stands here: it serves private functions alone.
pub mod Hearing
pub mod Here
pub mod Lines
pub mod Promises
pub mod Rows
pub mod Serving
pub mod Telling
