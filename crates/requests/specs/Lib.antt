-- The specifications of the crate requests.
pub mod Requests
