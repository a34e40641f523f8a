pub mod Behind
pub mod Chains
pub mod Tied
pub mod Whole
pub mod Texts
pub mod Arms
pub mod Outcomes
mod Examples
