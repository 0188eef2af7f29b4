pub mod RootEntry
pub mod Runs
pub mod Low
pub mod Reads
pub mod Enter
pub mod Ready
