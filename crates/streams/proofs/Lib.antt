pub mod OneLine
pub mod Keeping
pub mod Enough
pub mod Going
pub mod Onward
