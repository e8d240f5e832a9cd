pub mod FeatureLaws
pub mod OneOutcome
pub mod OneSession
pub mod Safe
pub mod WithoutMay
