pub mod FrontEnd
pub mod Inner
pub mod Judging
