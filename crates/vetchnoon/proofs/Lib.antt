pub mod Outputs
pub mod Examples
pub mod FractionalCalls
pub mod Distances
