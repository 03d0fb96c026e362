-- What a reader must believe stands in this folder; Laws/ is proof.
pub mod Calendar
pub mod Expiry
pub mod Theorems
pub mod Laws
