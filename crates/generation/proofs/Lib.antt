pub mod Proving
mod Summing
pub mod Existence
