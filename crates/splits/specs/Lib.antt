-- The definitions that the contracts of `splits` cite, and the runs of its code.
pub mod Splits
pub mod Runs
