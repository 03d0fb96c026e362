-- What a reader must believe stands in this folder; Laws/ is proof.
pub mod Demand
pub mod Each
pub mod Numbers
pub mod Numbered
pub mod Stops
pub mod Theorems
pub mod Laws
