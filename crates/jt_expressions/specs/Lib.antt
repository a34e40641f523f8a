pub mod Chains
pub mod Channels
pub mod Guards
pub mod Nested
