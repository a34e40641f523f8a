pub mod Commas
pub mod Kinds
pub mod Names
pub mod Operators
pub mod Parses
pub mod Tokens
