pub mod Lines
pub mod Kinds
pub mod Reading
pub mod Written
pub mod Parts
pub mod Theorems
pub mod Examples
