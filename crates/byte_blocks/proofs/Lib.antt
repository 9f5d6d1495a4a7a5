mod Classes
mod Counting
mod Creating
pub mod Living
