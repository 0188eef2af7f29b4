pub mod LongLocks
