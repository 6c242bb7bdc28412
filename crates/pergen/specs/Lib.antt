pub mod Pergen
pub mod Spelling
pub mod Answers
pub mod Parts
pub mod Theorems
pub mod Examples
