pub mod Finishing
pub mod Ended
pub mod Ready
