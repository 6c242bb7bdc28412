pub mod Lent
pub mod Passing
pub mod Questions
pub mod Asked
pub mod Examples
