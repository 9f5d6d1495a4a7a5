pub mod Decoding
pub mod Encoding
pub mod Fields
pub mod Formats
pub mod Spelling
