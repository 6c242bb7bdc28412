pub mod Mappings
pub mod Parts
pub mod Theorems
pub mod Examples
