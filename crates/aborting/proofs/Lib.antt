-- Theorems of the crate aborting.
pub mod Words
pub mod Abort
pub mod RecoverRow
