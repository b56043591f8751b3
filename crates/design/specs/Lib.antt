-- The definitions of this crate, in reading order.
pub mod Rows
pub mod Table
pub mod Calls
pub mod Tests
pub mod Effects
pub mod SoFar
