pub mod Accesses
pub mod Apart
pub mod Changes
pub mod Executing
pub mod Filling
pub mod Layouts
pub mod LittleEndian
mod PagedBytes
mod Pages
mod Parts
pub mod Places
mod Ready
mod Streaming
