pub mod KeyLayers
pub mod Answers
pub mod LampCodes
pub mod Kept
pub mod Parts
pub mod Theorems
pub mod Examples
