pub mod Shards
pub mod Posts
pub mod Asking
pub mod Changing
pub mod Calls
pub mod Placed
pub mod Runs
