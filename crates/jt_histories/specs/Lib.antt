pub mod Fronts
pub mod Kept
pub mod Merges
pub mod Jobs
pub mod Made
pub mod Rest
pub mod Turns
