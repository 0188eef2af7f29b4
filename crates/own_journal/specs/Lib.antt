pub mod Diary
pub mod Own
pub mod Checked
pub mod Machine
pub mod Example
