pub mod Identify
pub mod Value
pub mod Found
