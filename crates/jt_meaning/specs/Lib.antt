pub mod Run
pub mod State
pub mod Values
pub mod Meaning
pub mod Next
