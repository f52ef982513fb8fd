pub mod AllMemories
pub mod Below
pub mod Shown
pub mod Steps
