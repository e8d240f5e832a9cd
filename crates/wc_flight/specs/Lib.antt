pub mod Calls
pub mod Closing
pub mod Inner
pub mod Openings
