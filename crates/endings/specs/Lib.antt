-- The definitions that the contracts of `endings` cite, and their laws.
pub mod Leave
pub mod LeaveLaws
pub mod Fresh
pub mod Table
