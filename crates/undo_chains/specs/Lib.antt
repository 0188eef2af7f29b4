-- The specifications of the crate undo_chains.
pub mod UndoChains
