pub mod Calm
pub mod Countdown
pub mod Faces
pub mod FirstRefused
pub mod Inner
pub mod Judging
pub mod SingleTexts
pub mod Laws
