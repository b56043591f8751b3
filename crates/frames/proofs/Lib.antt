-- Lemmas on frames that are read and written.
pub mod Reading
pub mod Writing
pub mod Inverse
