pub mod Fields
pub mod Lengths
pub mod Tree
pub mod Longest
pub mod Tour
pub mod Fixes
pub mod Answers
