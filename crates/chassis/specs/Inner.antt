-- How a chassis keeps what it shows. It serves private fields alone: nobody has to believe it.
pub mod Kept
