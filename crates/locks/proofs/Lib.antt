-- Lemmas of the proofs.
pub mod Table
pub mod Own
pub mod Lowest
pub mod Conflict
