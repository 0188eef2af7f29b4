-- The definitions that the contracts of `starting` cite, and their laws.
pub mod Starting
pub mod Start
pub mod Rows
pub mod Logged
pub mod Writing
pub mod First
pub mod Runs
