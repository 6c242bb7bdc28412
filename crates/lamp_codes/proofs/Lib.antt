pub mod Ranges
pub mod Strips
pub mod Calls
pub mod Partners
pub mod Examples
