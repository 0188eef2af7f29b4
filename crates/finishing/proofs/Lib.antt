-- Theorems of the crate finishing.
pub mod Ended
pub mod Ready
