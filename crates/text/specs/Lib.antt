-- What a reader must believe stands in this folder; Laws/ is proof.
pub mod Buffer
pub mod Bytes
pub mod Decimal
pub mod Decides
pub mod Laws
