pub mod LineGraphs
pub mod Names
pub mod OneSet
