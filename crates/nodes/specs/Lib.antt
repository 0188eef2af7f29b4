-- The specifications of the crate nodes.
pub mod Node
pub mod Ops
pub mod Live
pub mod Entries
pub mod Paths
