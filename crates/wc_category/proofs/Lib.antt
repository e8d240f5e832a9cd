pub mod AgeLemmas
pub mod CategoryLemmas
pub mod FlagLemmas
pub mod PlaceLemmas
pub mod VisitLemmas
