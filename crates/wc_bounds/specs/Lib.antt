pub mod Heads
pub mod Inner
