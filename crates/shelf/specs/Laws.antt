pub mod Search
pub mod Decide
pub mod Calls
pub mod Count
pub mod Plain
