-- The laws that the proofs of the crate reshaping share.
pub mod Laws
