pub mod BestLemmas
pub mod FitLemmas
pub mod StatedLemmas
pub mod TallyLemmas
