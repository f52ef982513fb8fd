-- Nobody has to believe what stands here: it serves private functions alone.
pub mod Faces
pub mod Voted
