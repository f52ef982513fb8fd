pub mod Elaborations
pub mod ActParts
pub mod Rows
pub mod Countings
pub mod ActSizes
pub mod FunctionCosts
pub mod LabelCosts
pub mod PathCosts
