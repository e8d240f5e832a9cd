pub mod Capped
pub mod Contexts
pub mod Counted
pub mod HeadTables
pub mod OpenLoops
pub mod Terms
pub mod Unlimited
