-- The definitions that the contracts of `words` cite, and their laws.
pub mod Sizes
pub mod Cases
pub mod Window
pub mod Store
pub mod Header
pub mod Entries
pub mod Frames
pub mod Fields
