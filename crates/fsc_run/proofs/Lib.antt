mod Files
pub mod Sorts
