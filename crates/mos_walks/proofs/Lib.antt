pub mod Meeting
pub mod Searches
