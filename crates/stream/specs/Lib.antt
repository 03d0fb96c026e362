-- What a reader must believe stands in this folder; Laws/ is proof.
pub mod Jobs
pub mod Stream
pub mod Laws
