-- What a reader must believe stands in this folder; Laws/ is proof.
pub mod Run
pub mod Laws
