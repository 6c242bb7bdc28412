pub mod StripLaws
pub mod Theorems
pub mod Conversions
pub mod Calls
pub mod Examples
pub mod BenchExamples
