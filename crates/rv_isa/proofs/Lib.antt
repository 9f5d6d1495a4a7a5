pub mod Formats
pub mod Spelled
pub mod Tables
