pub mod Demonstrating
pub mod Ends
pub mod Finding
pub mod Going
pub mod Meaning
pub mod Refusing
pub mod Reporting
pub mod Writing
