pub mod Commands
pub mod Forms
pub mod Matching
pub mod Requests
