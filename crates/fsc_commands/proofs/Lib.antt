mod Demonstrations
pub mod Endings
pub mod Fronting
pub mod Going
pub mod Outcomes
mod Refusals
pub mod Reports
