pub mod Outer
pub mod Depths
pub mod NameTests
pub mod SlotTests
pub mod PlaceLaws
pub mod VariableLaws
mod Examples
