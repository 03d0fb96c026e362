-- What a reader must believe stands in this folder; Laws/ is proof.
pub mod Lines
pub mod Report
pub mod Texts
pub mod Buffer
pub mod Theorems
pub mod Laws
