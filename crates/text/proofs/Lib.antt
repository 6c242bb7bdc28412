pub mod Writing
pub mod Copying
pub mod Joined
pub mod Digits
pub mod Numbers
pub mod ReadBack
pub mod FourBytes
pub mod Examples
