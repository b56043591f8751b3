-- The lemmas of this crate.
mod Calls
pub mod Layers
