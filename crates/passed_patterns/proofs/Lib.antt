pub mod Examples
pub mod Showing
pub mod Outputs
