-- What the loop over a memory does at one place. It serves private functions alone: nobody has to believe it.
pub mod OneChange
