pub mod Batches
pub mod Making
pub mod Demand3
