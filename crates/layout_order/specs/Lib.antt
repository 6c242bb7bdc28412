pub mod Order
pub mod Answers
pub mod Parts
pub mod Theorems
pub mod Examples
