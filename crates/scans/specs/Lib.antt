-- The definitions that the contracts of `scans` cite, and their laws.
pub mod Scans
pub mod Rising
