pub mod Numbers
pub mod Wording
pub mod Calls
pub mod Holding
pub mod Examples
