-- Theorems of the crate serial.
pub mod Serial
pub mod Locks
pub mod LockMachine
pub mod Calls
pub mod Unfinished
pub mod Values
pub mod Recovery
pub mod ExampleLaws
pub mod Traces
