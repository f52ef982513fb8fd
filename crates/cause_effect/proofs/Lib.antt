pub mod Firsts
pub mod Joins
pub mod Kept
pub mod Tables
