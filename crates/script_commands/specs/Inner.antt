-- Nobody has to believe what stands in this folder: it serves private functions alone.
pub mod Blocks
