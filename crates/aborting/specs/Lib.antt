-- What abort does to the words of a store, and what it means.
pub mod Words
pub mod Abort
pub mod RecoverRow
