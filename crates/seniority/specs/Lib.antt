-- The specifications of the crate seniority.
pub mod Seniority
pub mod Laws
