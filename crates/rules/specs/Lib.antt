-- The definitions of this crate, in reading order, and the laws that its impls name.
pub mod Questions
pub mod Rules
pub mod Named
pub mod Laws
