pub mod Marks
pub mod Outlines
pub mod View
