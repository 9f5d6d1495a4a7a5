pub mod FaultLaws
pub mod Soundness
pub mod SegmentLoop
pub mod ImageLaws
pub mod FileLaws
pub mod RoundTrip
