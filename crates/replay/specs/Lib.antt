pub mod Held
pub mod Places
pub mod Pairs
pub mod Members
pub mod Feeding
pub mod Empty
pub mod Databases
pub mod Ready
