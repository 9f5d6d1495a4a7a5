pub mod Reading
pub mod Holding
pub mod TextLemmas
pub mod Turns
pub mod FormLaws
pub mod RequestLaws
