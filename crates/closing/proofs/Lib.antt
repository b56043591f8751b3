-- The lemmas of this crate.
pub mod Counts
pub mod Runs
pub mod Decides
