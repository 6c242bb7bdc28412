pub mod Names
pub mod Reading
pub mod Answers
pub mod Parts
pub mod Theorems
pub mod Examples
