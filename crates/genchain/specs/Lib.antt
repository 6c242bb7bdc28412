pub mod Chains
pub mod Answers
pub mod Texts
pub mod Theorems
pub mod Examples
