pub mod Fits
pub mod Room
pub mod Located
pub mod Runs
pub mod Loops
pub mod Verdict
