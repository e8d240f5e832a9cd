pub mod Checks
pub mod Inner
pub mod Laws
pub mod Wide
