pub mod Arithmetic
pub mod Breaking
pub mod Settings
pub mod Typing
pub mod Worked
