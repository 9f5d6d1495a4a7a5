pub mod Held
pub mod Kept
pub mod Layouts
pub mod Making
pub mod Pools
pub mod StandsFor
pub mod Store
