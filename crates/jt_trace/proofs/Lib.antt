pub mod Cuts
pub mod Paths
pub mod Texts
pub mod Loop
pub mod Top
pub mod Counts
pub mod Scripts
