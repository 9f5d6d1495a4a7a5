pub mod HideSets
pub mod Spelling
pub mod Scanning
pub mod Characters
pub mod CharacterLoop
pub mod Tokens
pub mod Stepping
