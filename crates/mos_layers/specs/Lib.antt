pub mod Layers
pub mod Answers
pub mod Parts
pub mod Theorems
pub mod Examples
