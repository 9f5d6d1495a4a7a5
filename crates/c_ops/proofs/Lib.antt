pub mod Masks
pub mod Running
