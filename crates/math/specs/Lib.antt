pub mod Gcd
pub mod Division
pub mod OddFactors
pub mod Passing
pub mod Answers
pub mod Examples
