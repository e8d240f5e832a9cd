pub mod Canonical
pub mod Files
pub mod Images
pub mod Layouts
pub mod Readings
