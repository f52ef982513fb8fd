pub mod Faces
pub mod Scans
pub mod Texts
