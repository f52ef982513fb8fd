pub mod SettledLinks
pub mod Steps
