pub mod Causes
pub mod Conditions
pub mod Constants
pub mod Evaluating
pub mod Expressions
pub mod Reading
pub mod Terms
pub mod Values
