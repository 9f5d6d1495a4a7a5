pub mod Listing
pub mod Memory
