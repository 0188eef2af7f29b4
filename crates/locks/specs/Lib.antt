-- The definitions that the contracts of `locks` cite, and their laws.
pub mod Rule
pub mod Holders
pub mod Bits
pub mod Lists
pub mod Blockers
