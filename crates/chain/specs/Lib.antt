-- The definitions that the contracts of `chain` cite.
pub mod Free
pub mod Walk
