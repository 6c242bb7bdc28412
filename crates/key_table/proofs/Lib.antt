pub mod OneLine
pub mod Printing
