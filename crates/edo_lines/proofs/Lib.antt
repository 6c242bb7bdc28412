pub mod LineLaws
pub mod Outputs
pub mod Examples
