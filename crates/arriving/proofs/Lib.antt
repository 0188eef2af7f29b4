-- Theorems of the crate arriving.
pub mod Made
pub mod Moving
