pub mod End
pub mod Image
pub mod Rule
