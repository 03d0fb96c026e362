pub mod Positions
pub mod Tree
pub mod Answers
pub mod Reader
pub mod Number
