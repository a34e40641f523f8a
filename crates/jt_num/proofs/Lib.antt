pub mod BitLemmas
pub mod DivisionLemmas
mod Examples
pub mod PowerLemmas
pub mod ProductLemmas
pub mod ShiftLemmas
pub mod WrappingLemmas
