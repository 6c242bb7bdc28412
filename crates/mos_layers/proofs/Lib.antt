pub mod Sizes
pub mod Cursors
pub mod Plans
pub mod Theorems
pub mod Answers
pub mod Examples
