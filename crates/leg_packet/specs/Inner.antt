-- What the functions that read a packet say of its parts. It serves private functions alone: nobody has to believe it.
pub mod Heads
pub mod Behind
pub mod AfterPair
