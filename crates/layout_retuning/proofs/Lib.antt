pub mod BothLayouts
pub mod Bound
pub mod Calls
pub mod Strides
pub mod Tables
pub mod Largest
pub mod Examples
