-- The definitions of this crate, in reading order.
pub mod Couplings
pub mod Verdicts
pub mod Right
pub mod Theorems
