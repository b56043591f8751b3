-- The definitions of this crate, in reading order.
pub mod Line
pub mod Clocks
