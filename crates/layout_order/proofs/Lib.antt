pub mod Places
pub mod Placing
pub mod Carrying
pub mod Ordering
pub mod Examples
