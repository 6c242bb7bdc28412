pub mod Serving
pub mod Listing
pub mod Choosing
pub mod Examples
