pub mod GoodChains
pub mod TableRows
pub mod TextTable
pub mod Calls
pub mod Examples
