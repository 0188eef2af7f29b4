-- The specifications of the crate lists.
pub mod Lists
