pub mod Bare
pub mod Choosing
pub mod Wrapping
