pub mod Tritaves
pub mod Table
pub mod Theorems
pub mod Examples
