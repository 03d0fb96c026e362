-- Whether a value is lawful, and how it is stored: the laws about it.
pub mod Laws
