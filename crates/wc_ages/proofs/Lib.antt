pub mod JoinLemmas
pub mod MayLemmas
pub mod MustLemmas
pub mod SlotLemmas
