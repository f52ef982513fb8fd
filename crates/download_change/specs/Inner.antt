-- What private functions do. Nobody has to believe it.
pub mod Origins
pub mod Tables
