pub mod KindLeft
pub mod Left
pub mod Answering
pub mod Elsewhere
pub mod Within
mod Examples
