pub mod Layouts
pub mod Parts
pub mod Theorems
pub mod Examples
