-- The lemmas of this crate.
pub mod Disturbing
pub mod Blocking
pub mod Sweeping
pub mod Settles
pub mod Waking
pub mod Visiting
pub mod Agreeing
pub mod Reading
pub mod Breaching
pub mod Answering
pub mod Rounding
pub mod Acting
