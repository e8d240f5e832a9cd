pub mod Answers
pub mod Boxes
pub mod Features
pub mod Fits
pub mod Inner
pub mod Openings
pub mod Turns
pub mod Views
