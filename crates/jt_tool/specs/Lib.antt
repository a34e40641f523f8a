pub mod Faults
pub mod Status
pub mod Asked
pub mod Scripts
pub mod Stops
pub mod Tool
pub mod Outcomes
