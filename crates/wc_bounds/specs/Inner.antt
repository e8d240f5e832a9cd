pub mod Best
pub mod Stated
pub mod Tallies
