-- The lemmas of this crate.
pub mod Reach
pub mod OneSweep
pub mod Latest
pub mod Beginning
pub mod Earliest
pub mod Nearing
pub mod Together
