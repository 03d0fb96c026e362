pub mod Worth
pub mod Number
