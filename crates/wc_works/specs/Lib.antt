pub mod Required
pub mod Shipped
pub mod Solving
