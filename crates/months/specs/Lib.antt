-- What a reader must believe stands in this folder; Laws/ is proof.
pub mod Months
pub mod Ordinal
pub mod Theorems
pub mod Laws
