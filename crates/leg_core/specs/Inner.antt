-- Nobody has to believe what stands here: it serves private functions alone.
pub mod Fit
pub mod Rooms
