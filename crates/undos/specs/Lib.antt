-- The specifications of the crate undos.
pub mod Undo
