pub mod RoundLines
pub mod RoundWords
pub mod Round
pub mod Pieces
