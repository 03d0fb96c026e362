pub mod Date
pub mod Time
pub mod Stamp
pub mod Lawful
