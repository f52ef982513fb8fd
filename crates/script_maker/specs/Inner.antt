-- How the program of the generator is put together. Nobody has to believe it.
pub mod Pieces
