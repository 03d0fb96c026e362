-- What scanning finds, and the laws about it.
pub mod Laws
