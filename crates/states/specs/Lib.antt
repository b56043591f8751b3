-- The definitions of this crate, in reading order.
pub mod Counting
pub mod Passing
pub mod Views
pub mod Typed
pub mod Roles
