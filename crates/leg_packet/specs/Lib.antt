pub mod Inner
pub mod Readings
pub mod Sheets
pub mod Views
