-- Nobody has to believe what stands here: it serves private functions, and the proofs, alone.
pub mod Codes
pub mod Rules
