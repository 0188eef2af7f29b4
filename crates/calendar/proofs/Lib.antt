-- Lemmas of the proofs.
pub mod Loops
pub mod Starts
