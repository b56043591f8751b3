-- The definitions of this crate, in reading order.
pub mod Room
pub mod Replies
pub mod Overwriting
pub mod Outputs
pub mod Judging
