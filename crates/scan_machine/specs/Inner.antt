-- What the parts of `verify` and `run` ask and answer. It serves private functions alone: nobody has to believe it.
pub mod Reaches
pub mod Loops
pub mod FirstFault
pub mod Groups
pub mod Waiting
pub mod Kinds
