-- Nobody has to believe what stands here: it serves private functions alone.
pub mod Blocks
pub mod Meant
pub mod Scans
