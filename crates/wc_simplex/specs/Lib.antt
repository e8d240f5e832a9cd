pub mod Inner
pub mod Outcomes
pub mod Solutions
