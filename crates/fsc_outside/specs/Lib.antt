pub mod Calls
pub mod Counts
pub mod FileMap
pub mod Memory
pub mod Plan
pub mod Streams
pub mod Table
