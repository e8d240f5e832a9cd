pub mod NewPasses
mod Prefixes
mod Seats
mod Steps
