pub mod Causes
pub mod Taking
