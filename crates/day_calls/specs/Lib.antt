pub mod Calling
pub mod Accepting
pub mod Ways
pub mod Places
pub mod Lists
pub mod Threads
pub mod Stored
