pub mod Performing
pub mod Tool
pub mod Words
