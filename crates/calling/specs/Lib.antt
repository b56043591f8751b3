-- The definitions of this crate, in reading order.
pub mod Requests
pub mod Applied
pub mod Law
pub mod Runs
