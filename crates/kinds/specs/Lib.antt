-- The specifications of the crate kinds.
pub mod Kind
