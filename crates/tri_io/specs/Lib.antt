pub mod FaultCounts
pub mod SingleCalls
pub mod WholeStreams
pub mod WrappedStreams
pub mod MemoryStreams
