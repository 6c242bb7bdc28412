pub mod Changed
pub mod Records
pub mod Calls
pub mod Theorems
pub mod Examples
