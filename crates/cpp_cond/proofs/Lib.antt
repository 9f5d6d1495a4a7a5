pub mod Complete
pub mod Constants
pub mod Levels
pub mod Others
pub mod ReadingLaws
pub mod Sound
pub mod TermLaws
pub mod Values
