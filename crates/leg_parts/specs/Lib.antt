pub mod Results
pub mod Closings
pub mod LongLines
pub mod Logs
pub mod Inner
