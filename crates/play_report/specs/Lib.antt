pub mod Told
pub mod Marks
pub mod Tables
pub mod LegsReport
pub mod Played
pub mod Starved
