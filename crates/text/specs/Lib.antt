pub mod Writing
pub mod Decimal
pub mod LittleEndian
pub mod Theorems
pub mod Examples
