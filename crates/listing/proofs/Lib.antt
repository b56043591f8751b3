-- The lemmas of this crate.
pub mod Joins
pub mod Bytes
pub mod Sizes
pub mod Granted
