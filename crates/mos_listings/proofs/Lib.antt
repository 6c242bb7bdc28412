pub mod Listings
pub mod Runs
pub mod Leaping
pub mod Shortening
