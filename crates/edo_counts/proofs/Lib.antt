pub mod Counting
pub mod Sums
pub mod Sharpness
pub mod Lines
pub mod Examples
