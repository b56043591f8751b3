-- The definitions of this crate, in reading order.
pub mod Asking
pub mod Found
pub mod Answers
