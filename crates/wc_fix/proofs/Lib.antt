pub mod QueueLemmas
pub mod RaisingLemmas
pub mod SolutionLemmas
pub mod VisitLemmas
