pub mod Tables
pub mod Parts
pub mod Theorems
pub mod Examples
