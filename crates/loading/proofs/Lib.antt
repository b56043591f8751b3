-- The lemmas of this crate.
pub mod Lines
pub mod Items
pub mod Outcomes
pub mod Steps
pub mod Goes
pub mod NodeRows
pub mod Feeds
pub mod Couples
pub mod Opened
pub mod Rebuild
