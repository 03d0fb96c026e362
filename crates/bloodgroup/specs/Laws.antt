pub mod Search
pub mod Table
pub mod Rule
pub mod Groups
