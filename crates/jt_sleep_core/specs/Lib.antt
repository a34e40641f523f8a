pub mod Limits
pub mod Numbering
pub mod State
pub mod Steps
pub mod Runs
pub mod Sound
