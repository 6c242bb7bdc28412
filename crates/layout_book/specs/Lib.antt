pub mod LayoutBooks
pub mod Parts
pub mod Theorems
pub mod Examples
