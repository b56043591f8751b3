-- The lemmas of this crate.
pub mod Grow
pub mod Sound
pub mod Reached
pub mod Bounded
