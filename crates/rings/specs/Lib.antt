-- The definitions of this crate, in reading order.
pub mod Settling
pub mod Found
pub mod InPlace
