-- The definitions of this crate, in reading order.
pub mod Numbers
pub mod Layers
