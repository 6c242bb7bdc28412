pub mod Layouts
pub mod ScaleNames
pub mod Names
pub mod Answers
pub mod Parts
pub mod Theorems
pub mod FewestSigns
pub mod Examples
