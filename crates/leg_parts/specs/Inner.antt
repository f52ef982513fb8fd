-- Nobody has to believe what stands here: it serves private functions alone.
pub mod Sheets
pub mod Programs
pub mod Kept
pub mod Logs
