-- What a reader must believe stands in this folder; Laws/ is proof.
pub mod Record
pub mod Refusals
pub mod Host
pub mod Theorems
pub mod Laws
