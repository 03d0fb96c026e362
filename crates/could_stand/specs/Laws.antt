pub mod Placed
pub mod Front
pub mod Each
pub mod One
