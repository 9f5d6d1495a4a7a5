pub mod Bits
pub mod Stripping
pub mod Tables
pub mod Using
pub mod Walks
