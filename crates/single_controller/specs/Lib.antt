pub mod Controller
pub mod Laws
pub mod Inner
pub mod Standing
