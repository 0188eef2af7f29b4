-- Lemmas of the proofs.
pub mod Turns
