pub mod Underway
pub mod Taken
pub mod Sofar
pub mod One
