-- What a reader must believe stands in this folder; Laws/ is proof.
pub mod Donation
pub mod Structures
pub mod Theorems
pub mod Laws
