pub mod Words
pub mod Explanations
pub mod Sentences
pub mod Answers
pub mod Parts
pub mod Theorems
pub mod Examples
