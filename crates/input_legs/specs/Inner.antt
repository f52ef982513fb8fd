-- What serves private functions alone: nobody has to believe it.
pub mod Counts
pub mod Shown
pub mod Alike
