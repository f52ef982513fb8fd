-- What private functions of this crate ensure. Nobody has to believe it.
pub mod Adding
