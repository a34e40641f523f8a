pub mod Kinds
pub mod Again
pub mod Reread
