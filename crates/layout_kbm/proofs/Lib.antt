pub mod Calls
pub mod KeysRead
pub mod Natural
pub mod Examples
