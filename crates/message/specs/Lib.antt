-- What a reader must believe stands in this folder; Laws/ is proof.
pub mod Grammar
pub mod Places
pub mod Where
pub mod Refusals
pub mod Reading
pub mod Theorems
pub mod Writing
pub mod Told
pub mod Laws
