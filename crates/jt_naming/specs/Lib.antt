pub mod Rules
pub mod Scripts
pub mod Refusals
