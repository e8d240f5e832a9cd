pub mod Greatest
pub mod Searches
