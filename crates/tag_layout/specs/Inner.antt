-- What a layout keeps. It serves private fields alone: nobody has to believe it.
pub mod Kept
