pub mod KindSets
pub mod Required
