-- The definitions of this crate, in reading order.
pub mod Connections
pub mod Delays
pub mod Figures
pub mod Windows
pub mod Breaches
pub mod Courses
pub mod Theorems
