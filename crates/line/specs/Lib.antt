pub mod Lines
pub mod LineLayouts
pub mod Refusals
pub mod Theorems
pub mod Examples
