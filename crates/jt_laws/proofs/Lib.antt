mod Examples
pub mod Lawful
pub mod Fifo
pub mod Shut
pub mod Asking
pub mod Offers
pub mod Possible
pub mod TaskLaws
pub mod Paths
pub mod Counts
pub mod SemaphoreLaws
pub mod LockLaws
pub mod Waits
pub mod TaskResults
pub mod Notified
pub mod Parts
pub mod Levels
mod HistoryExamples
