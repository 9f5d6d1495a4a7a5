pub mod Header
pub mod Library
