pub mod Changes
pub mod Rows
pub mod Sheets
pub mod Lengths
pub mod Closings
pub mod Faces
