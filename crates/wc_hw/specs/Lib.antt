pub mod HardwareFile
pub mod HardwareText
pub mod Reading
