-- What a reader must believe stands in this folder; Laws/ is proof.
pub mod Values
pub mod InC
pub mod Faithful
pub mod Theorems
pub mod Laws
