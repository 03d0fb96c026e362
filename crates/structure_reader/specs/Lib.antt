-- What reading a structure finds, and the laws about it.
pub mod Laws
