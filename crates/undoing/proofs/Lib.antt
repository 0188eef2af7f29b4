-- Theorems of the crate undoing.
pub mod ValueUndone
pub mod GroupUndone
pub mod OneUndone
pub mod AllUndone
