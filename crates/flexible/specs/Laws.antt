pub mod DateType
pub mod Day
pub mod Flexible
