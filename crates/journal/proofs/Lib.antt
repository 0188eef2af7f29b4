-- Theorems of the crate journal.
pub mod Loops
