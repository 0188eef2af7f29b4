pub mod Said
pub mod Refused
