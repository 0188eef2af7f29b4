-- Theorems of the crate taking.
pub mod Moves
