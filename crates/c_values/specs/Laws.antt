pub mod Values
pub mod InC
