pub mod Generator
pub mod Range
pub mod Stream
pub mod Words
