mod Noting
pub mod Sorting
