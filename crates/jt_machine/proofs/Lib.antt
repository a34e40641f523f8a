pub mod Workers
pub mod Seated
pub mod Shelf
pub mod Moving
pub mod Waking
pub mod Entering
pub mod Following
pub mod Serving
pub mod Advancing
pub mod Falling
pub mod Deadlocked
pub mod Starting
pub mod Finish
mod Examples
