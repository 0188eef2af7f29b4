-- Theorems of the crate promises.
pub mod Ways
pub mod Words
pub mod Line
