pub mod Streams
pub mod Reading
pub mod Printing
