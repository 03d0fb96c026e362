-- What a reader must believe stands in this folder; Laws/ is proof.
pub mod Minutes
pub mod Order
pub mod Theorems
pub mod Laws
