pub mod Nodes
pub mod Lowered
pub mod Loops
pub mod Chains
