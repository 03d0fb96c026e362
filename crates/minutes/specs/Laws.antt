pub mod Count
pub mod Order
pub mod Difference
pub mod Answer
