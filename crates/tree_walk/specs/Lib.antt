-- The specifications of the crate tree_walk.
pub mod TreeWalk
