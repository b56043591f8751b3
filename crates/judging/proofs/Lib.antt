-- The lemmas of this crate.
pub mod Instance
pub mod Meaning
pub mod Uniqueness
