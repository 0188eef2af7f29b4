-- Lemmas of the proofs.
pub mod Calls
