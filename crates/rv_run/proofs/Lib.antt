pub mod Composing
pub mod Counting
pub mod Fetching
pub mod Keeping
pub mod Moving
pub mod Reaching
pub mod RegisterLaws
pub mod Running
mod Storing
