pub mod Inner
pub mod Sound
