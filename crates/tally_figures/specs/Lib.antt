-- What a reader must believe stands in this folder; Laws/ is proof.
pub mod Tally
pub mod Counters
pub mod Theorems
pub mod Laws
