-- What a reader must believe stands in this folder.
pub mod Labels
