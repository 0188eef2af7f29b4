-- The definitions that the contracts of `undo_log` cite, and their laws.
pub mod Undoing
pub mod Freeing
