-- The lemmas of this crate.
mod Lists
pub mod Lawful
pub mod Cleared
