pub mod KeyLemmas
pub mod OneReading
pub mod ReadBack
pub mod Stated
pub mod TextLemmas
pub mod Trees
