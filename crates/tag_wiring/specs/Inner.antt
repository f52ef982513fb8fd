-- How a wiring is kept and made, and how points are spelled. It serves private functions alone: nobody has to believe it.
pub mod Kept
pub mod Spelling
pub mod Marked
pub mod Steps
pub mod Wires
