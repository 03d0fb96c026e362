pub mod Pasted
pub mod Rows
pub mod Picked
pub mod Tally
