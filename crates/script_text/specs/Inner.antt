-- What private functions of this crate ensure, and how private fields are kept. Nobody has to believe it.
pub mod Steps
pub mod LegParts
