pub mod Distances
pub mod Blocks
pub mod LetterKeys
pub mod Nearest
pub mod Spans
pub mod Examples
