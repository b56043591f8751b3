-- The definitions of this crate, in reading order, and the laws that its impls name.
pub mod Arrivals
pub mod Both
pub mod Laws
