mod Calls
mod Chains
mod Options
