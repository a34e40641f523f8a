pub mod Bits
pub mod Division
pub mod Powers
pub mod Shifts
pub mod Wrapping
