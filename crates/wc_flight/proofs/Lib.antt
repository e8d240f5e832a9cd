pub mod AskLemmas
pub mod CloseLemmas
pub mod HoldLemmas
pub mod NoteLemmas
pub mod OpeningLemmas
pub mod OthersLemmas
pub mod StartsLemmas
