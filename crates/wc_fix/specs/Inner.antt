pub mod Fixing
pub mod Queues
