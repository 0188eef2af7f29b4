-- Lemmas of the proofs.
pub mod Walk
pub mod Turns
