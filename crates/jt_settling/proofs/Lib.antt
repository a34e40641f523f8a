pub mod Within
pub mod Numbers
pub mod Settled
pub mod DirectMarks
