-- The theorem on the labels stands here, and not in specs/, so that an edit of a label is read, and refused.
pub mod Tested
pub mod Theorems
