pub mod Moves
pub mod Jobs
pub mod Stream
pub mod Telling
