-- What a reader must believe stands in this folder; Laws/ is proof.
pub mod Extract
pub mod Masked
pub mod Extracts
pub mod Lines
pub mod Theorems
pub mod Laws
