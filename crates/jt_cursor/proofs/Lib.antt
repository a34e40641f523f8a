mod CommaTurns
pub mod Lists
mod Names
pub mod Starts
