pub mod Counts
pub mod Tests
pub mod Readings
pub mod Figures
pub mod Counters
pub mod Walked
