pub mod Inner
pub mod Learned
pub mod Learning
pub mod Lessons
