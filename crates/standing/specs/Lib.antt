-- The specifications of the crate standing.
pub mod Standing
