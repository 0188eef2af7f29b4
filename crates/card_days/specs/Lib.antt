pub mod Day
pub mod Laws
pub mod Counting
pub mod Loops
pub mod Ways
