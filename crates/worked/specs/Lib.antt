-- The definitions of this crate, in reading order.
pub mod Designs
pub mod Examples
pub mod ClosedSets
