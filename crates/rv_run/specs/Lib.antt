pub mod CodeAt
pub mod ImageRun
pub mod Machine
pub mod Sound
