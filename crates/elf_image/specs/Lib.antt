pub mod Fields
pub mod Faults
pub mod Checking
pub mod Reading
pub mod Writing
