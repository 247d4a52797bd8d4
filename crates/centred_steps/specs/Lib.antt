pub mod UsageSpread
pub mod Loads
pub mod Ways
pub mod Weights
