pub mod Text
pub mod Cut
