pub mod Answers
pub mod Making
pub mod Seats
pub mod Scans
