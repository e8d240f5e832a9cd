pub mod Parts
pub mod Served
