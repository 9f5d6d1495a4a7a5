pub mod Ending
pub mod Lives
pub mod Reporting
pub mod Sort
