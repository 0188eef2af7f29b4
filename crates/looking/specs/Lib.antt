-- What the contracts of `looking` cite, and what it means.
pub mod Halves
pub mod Looking
pub mod Told
pub mod Read
