-- The specifications of the crate marks.
pub mod Marks
pub mod Steps
pub mod Trail
