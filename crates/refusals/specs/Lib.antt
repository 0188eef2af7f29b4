pub mod Refusing
pub mod Coded
