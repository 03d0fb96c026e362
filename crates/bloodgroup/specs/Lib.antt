-- What a reader must believe stands in this folder; Laws/ is proof.
pub mod Table
pub mod Groups
pub mod Theorems
pub mod Laws
