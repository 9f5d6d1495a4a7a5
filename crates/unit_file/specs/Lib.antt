pub mod Reading
pub mod Spelling
pub mod Tags
pub mod Tails
pub mod Units
