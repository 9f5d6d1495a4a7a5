pub mod Periods
pub mod Places
pub mod Tables
pub mod Cells
pub mod Descriptors
pub mod Shapes
