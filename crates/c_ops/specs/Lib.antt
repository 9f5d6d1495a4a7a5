pub mod Bits
pub mod Operators
pub mod Primitives
pub mod Runs
pub mod Words
