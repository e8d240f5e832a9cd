mod BoundAnswers
mod CallLemmas
mod LoadingLemmas
mod OneAnswer
mod OneWorkLemmas
mod OpeningLemmas
mod RegistryLemmas
mod ServeAnswers
mod ServingLemmas
mod TallyLemmas
pub mod ChainLemmas
pub mod CostLemmas
pub mod QuotientLemmas
pub mod SolvingLemmas
