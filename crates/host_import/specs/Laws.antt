pub mod Field
pub mod Import
