-- The lemmas of this crate.
pub mod Lists
pub mod Sweeping
pub mod Reading
pub mod Rounds
pub mod Holding
pub mod Meaning
