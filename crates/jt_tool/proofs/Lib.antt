pub mod Stopped
pub mod Complete
pub mod Answered
