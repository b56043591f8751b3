-- What frames are: kinds, rules, bytes, and what reading and writing answer.
pub mod Kinds
pub mod Rules
pub mod Frames
pub mod Contents
