pub mod Hope
pub mod Loop
pub mod Reader
pub mod Start
