-- Theorems and lemmas that an edit of the rule has to break.
pub mod Passed
pub mod Mistyped
pub mod Theorems
