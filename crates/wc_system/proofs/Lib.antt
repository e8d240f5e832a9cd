pub mod CeilingLemmas
pub mod ContextLemmas
pub mod CountLemmas
pub mod LoopLemmas
pub mod SoundLemmas
pub mod TermLemmas
pub mod WholeLemmas
