pub mod Lamps
pub mod Answers
pub mod Parts
pub mod Theorems
pub mod Examples
pub mod BenchExamples
