pub mod Month
pub mod Together
pub mod Ordinal
