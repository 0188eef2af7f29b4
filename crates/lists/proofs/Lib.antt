-- Lemmas of the proofs.
pub mod SameFiles
pub mod Turns
