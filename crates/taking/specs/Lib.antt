-- The definitions that the contracts of `taking` cite, and the proof that its steps are the machine's.
pub mod Place
pub mod Found
pub mod Pass
pub mod Range
pub mod Last
pub mod Blocked
pub mod Taking
pub mod Moves
pub mod On
pub mod Ready
pub mod Runs
