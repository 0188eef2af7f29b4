-- Local stamps: the definitions, and their laws for every base offset up to 180.
pub mod Stamps
pub mod Minutes
pub mod Settled
pub mod Laws
pub mod Occurs
pub mod Refused
pub mod Numbers
pub mod Ticks
pub mod Counts
pub mod Examples
