pub mod TableRule
pub mod Choosing
pub mod Meeting
pub mod Examples
