pub mod Filling
pub mod Guest
pub mod Layout
pub mod Pages
pub mod Ready
pub mod Regions
pub mod Rights
