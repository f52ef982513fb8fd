pub mod Placing
pub mod Naming
pub mod Lying
pub mod Apart
pub mod Standing
pub mod FirstValues
pub mod Examples
