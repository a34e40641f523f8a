pub mod Plan
pub mod View
