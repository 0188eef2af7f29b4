-- Theorems of the crate changing.
pub mod Rows
