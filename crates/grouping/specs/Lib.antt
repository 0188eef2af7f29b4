pub mod GroupWords
