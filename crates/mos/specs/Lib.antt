pub mod Patterns
pub mod Walks
pub mod Coprime
pub mod Answers
pub mod Theorems
pub mod Scale
pub mod IntervalClasses
pub mod Examples
