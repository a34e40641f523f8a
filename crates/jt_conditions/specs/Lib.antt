pub mod Answers
pub mod Completions
pub mod CompletionSteps
pub mod Events
pub mod Semaphores
pub mod Locks
pub mod Absences
pub mod Conditions
