-- What a reader must believe stands in this folder; Laws/ is proof.
pub mod Check
pub mod Typed
pub mod Theorems
pub mod Laws
