-- The lemmas of this crate.
pub mod Answering
pub mod Reading
