pub mod Coding
pub mod Examples
