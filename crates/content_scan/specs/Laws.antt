pub mod Scan
pub mod Passes
pub mod Digits
pub mod Judge
pub mod Whole
