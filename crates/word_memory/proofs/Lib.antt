pub mod Numbers
pub mod Parts
pub mod Stored
pub mod Spelled
