-- How the types of this crate keep what they show. It serves private fields alone: nobody has to believe it.
pub mod NameFields
pub mod TouchedFields
