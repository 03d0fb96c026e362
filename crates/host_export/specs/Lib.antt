-- How export asks and stores, and the laws about it.
pub mod Laws
