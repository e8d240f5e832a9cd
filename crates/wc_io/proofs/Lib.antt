pub mod RowLemmas
pub mod HouseLemmas
pub mod WritingLemmas
pub mod FeedLemmas
pub mod FileLemmas
pub mod LineLemmas
pub mod CollectLemmas
pub mod NextLemmas
