-- The specifications of the crate holders.
pub mod Holders
