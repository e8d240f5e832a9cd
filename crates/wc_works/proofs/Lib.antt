pub mod GivenLemmas
pub mod NeedLemmas
pub mod PassingLemmas
pub mod PhaseLemmas
pub mod QuotientLemmas
pub mod ShippingLemmas
pub mod SolvingLemmas
pub mod SystemLemmas
