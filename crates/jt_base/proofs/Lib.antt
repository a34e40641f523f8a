pub mod Moves
pub mod Examples
mod PicksExamples
pub mod PicksLemmas
