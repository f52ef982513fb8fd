-- What a program keeps, and that the meaning keeps the laws of engines. Nobody has to believe it.
pub mod Kept
pub mod Judged
pub mod Ending
pub mod Stores
pub mod Scans
pub mod MeaningLaws
