-- The lemmas of this crate.
pub mod Hex
pub mod Texts
pub mod Buffers
pub mod Spelled
