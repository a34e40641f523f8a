pub mod Numbers
mod FiveFields
mod Walking
pub mod Walks
mod Spelling
mod Answered
mod Named
mod Limits
mod Examples
