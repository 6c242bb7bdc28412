pub mod Lines
pub mod Calls
pub mod Fitting
pub mod Examples
