pub mod Binding
pub mod Nearest
pub mod Opening
pub mod Operands
pub mod Units
pub mod Views
