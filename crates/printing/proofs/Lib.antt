-- The lemmas of this crate.
pub mod Chain
pub mod Rows
pub mod Texts
