pub mod Fractional
pub mod Walk
pub mod Answers
pub mod Parts
pub mod WholeParts
pub mod Theorems
pub mod Examples
