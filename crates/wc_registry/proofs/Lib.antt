pub mod ClosureLemmas
pub mod FaultLemmas
pub mod KindLemmas
pub mod OrderLemmas
pub mod ReachLemmas
pub mod SetLemmas
