-- What a reader must believe stands in this folder; Laws/ is proof.
pub mod Blocks
pub mod Theorems
pub mod Laws
