-- Theorems of the crate leaving.
pub mod Commit
