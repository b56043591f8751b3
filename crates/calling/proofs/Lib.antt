-- The lemmas of this crate.
pub mod Lending
pub mod Lists
pub mod Fronts
pub mod Calls
pub mod Histories
