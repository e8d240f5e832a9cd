pub mod AgeLaws
pub mod Slots
pub mod States
