pub mod Arms
pub mod Nests
pub mod Ranges
pub mod Statements
