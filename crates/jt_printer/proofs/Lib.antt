pub mod Arms
pub mod Again
pub mod Whole
