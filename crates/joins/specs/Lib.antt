-- The definitions that the contracts of `joins` cite, and the runs of its code.
pub mod Joins
pub mod Runs
