pub mod Away
pub mod Laws
pub mod Runs
pub mod Watch
