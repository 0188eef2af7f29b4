-- The rows of format, begin, put and commit on words.
pub mod Words
pub mod Renumbered
pub mod Begun
pub mod AskRow
pub mod Asking
pub mod Left
pub mod LeafRows
pub mod LeaveRow
pub mod Freed
pub mod FreedRow
pub mod Commit
pub mod FreshWords
pub mod FreshRow
