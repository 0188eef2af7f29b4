-- The specifications of the crate holdings.
pub mod Holdings
