pub mod Shown
pub mod Back
pub mod One
pub mod Copied
pub mod Parts
pub mod Fields
pub mod Short
pub mod Lines
