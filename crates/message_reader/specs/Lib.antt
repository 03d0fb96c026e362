-- How the reader goes on, and the laws about it.
pub mod Laws
