pub mod DigitLemmas
pub mod EachLemmas
pub mod Products
pub mod SumLemmas
pub mod TestLemmas
