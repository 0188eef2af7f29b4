-- The definitions that the contracts of `members` cite, and their laws.
pub mod Members
