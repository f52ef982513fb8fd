pub mod Ranges
pub mod Judged
pub mod TagWords
pub mod FittingTerms
pub mod SoundStatements
