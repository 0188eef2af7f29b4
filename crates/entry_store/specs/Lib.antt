pub mod Brief
pub mod Exported
pub mod Journal
pub mod Looks
pub mod Made
pub mod Servings
pub mod Turns
pub mod Worded
