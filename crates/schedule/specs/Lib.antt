-- The definitions of this crate, in reading order.
pub mod Clock
pub mod Shown
pub mod Made
