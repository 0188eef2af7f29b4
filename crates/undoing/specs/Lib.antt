-- The laws of undo records undone, newest first.
pub mod Rows
pub mod OneUndone
pub mod AllUndone
