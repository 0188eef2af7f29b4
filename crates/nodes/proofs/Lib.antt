-- The laws that the proofs of the crate nodes share.
pub mod Laws
