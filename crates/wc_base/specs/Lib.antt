pub mod Arithmetic
pub mod Decimals
pub mod Faults
pub mod FaultTexts
pub mod Sums
pub mod Troubles
