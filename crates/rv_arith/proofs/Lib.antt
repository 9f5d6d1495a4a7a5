mod Halves
pub mod Results
