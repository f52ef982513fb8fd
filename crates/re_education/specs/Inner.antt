-- How a learner keeps its lesson, and what its private functions say. Nobody has to believe it.
pub mod Headers
pub mod Kept
pub mod Shown
