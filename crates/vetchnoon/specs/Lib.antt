pub mod Written
pub mod Examples
pub mod FractionalPatterns
pub mod TypedNames
