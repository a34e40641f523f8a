pub mod Left
pub mod LeftIn
pub mod Waiting
pub mod Value
