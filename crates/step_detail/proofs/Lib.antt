mod Lines
mod PathCosts
mod Pairs
mod Steps
pub mod Existence
mod Agreeing
