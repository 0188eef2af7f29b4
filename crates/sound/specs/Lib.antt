-- The specifications of the crate sound.
pub mod Faults
pub mod Sizes
pub mod Sound
