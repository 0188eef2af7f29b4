-- The definitions that the contracts of `descents` cite, and the runs of its code.
pub mod Descents
pub mod Runs
