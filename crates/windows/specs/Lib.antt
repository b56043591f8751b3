-- The definitions of this crate, in reading order.
pub mod Edges
pub mod Delays
pub mod Effective
pub mod Seen
pub mod Blocks
pub mod InPlace
pub mod Rings
pub mod Found
pub mod Lending
pub mod Written
pub mod Breaches
pub mod Answers
pub mod Rounds
pub mod Carried
