pub mod Inner
pub mod Builds
