-- What serves private functions alone: nobody has to believe it.
pub mod Sides
