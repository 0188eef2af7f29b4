-- The specifications of the crate reshaping.
pub mod Ops
pub mod Live
pub mod Entries
