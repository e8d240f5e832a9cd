pub mod FlagLemmas
pub mod LineGraphLemmas
pub mod MetLemmas
pub mod NameLemmas
pub mod SetLemmas
