-- The definitions of this crate, in reading order.
pub mod Networks
pub mod Figures
pub mod Kinds
pub mod Sweeps
pub mod Theorems
