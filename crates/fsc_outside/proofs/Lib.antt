pub mod Appending
pub mod Earlier
pub mod Named
pub mod Taken
pub mod Written
