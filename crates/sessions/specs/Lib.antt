-- The specifications of the crate sessions.
pub mod Sessions
