-- What a reader must believe stands in this folder; Laws/ is proof.
pub mod Shelf
pub mod Plain
pub mod Theorems
pub mod Laws
