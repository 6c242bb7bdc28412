pub mod Counts
pub mod Parts
pub mod Theorems
pub mod Examples
