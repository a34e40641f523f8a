mod Examples
pub mod Streams
