pub mod Lengthening
pub mod Words
