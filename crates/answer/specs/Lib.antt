pub mod Choice
pub mod Tests
pub mod Outcome
pub mod Refusals
pub mod Lent
pub mod Examples
