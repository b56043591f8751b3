-- The lemmas of this crate.
pub mod Steps
pub mod Loops
pub mod ShortPaths
