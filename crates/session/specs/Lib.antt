-- The definitions of this crate, in reading order.
pub mod Printing
pub mod Replies
pub mod Theorems
