-- The specifications of the crate parties.
pub mod Parties
