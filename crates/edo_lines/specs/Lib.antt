pub mod Lines
pub mod Parts
pub mod Theorems
pub mod Examples
