-- The definitions of this crate, in reading order.
pub mod Sets
pub mod Systems
pub mod Rounds
pub mod Theorems
