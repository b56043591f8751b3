-- The lemmas of this crate.
pub mod Granted
pub mod Growing
pub mod Standing
