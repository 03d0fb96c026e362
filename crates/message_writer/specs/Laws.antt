pub mod Writer
pub mod Shape
pub mod Stores
