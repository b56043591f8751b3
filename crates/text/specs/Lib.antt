-- The definitions of this crate, in reading order.
pub mod Lines
pub mod Digits
pub mod Spelling
