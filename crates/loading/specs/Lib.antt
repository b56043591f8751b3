-- The definitions of this crate, in reading order.
pub mod Asking
pub mod Outcomes
pub mod Loading
pub mod Loads
pub mod Writing
pub mod Rebuilding
