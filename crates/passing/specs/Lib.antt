-- The specifications of the crate passing.
pub mod Asked
pub mod Passed
