-- The definitions of this crate, in reading order.
pub mod Status
