-- The lemmas of this crate.
pub mod Flagging
pub mod Acting
pub mod Carrying
pub mod Rounds
pub mod Showing
pub mod Going
