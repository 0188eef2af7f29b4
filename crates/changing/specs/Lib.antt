-- The rows of inserts and removes: definitions that the contracts of `changing` cite, and what they mean.
pub mod Links
pub mod Logs
pub mod Naming
pub mod Fitting
pub mod Logged
pub mod Adding
pub mod TakingOut
pub mod Changing
pub mod Ends
pub mod Rows
pub mod Ready
pub mod Runs
