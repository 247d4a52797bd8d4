pub mod LeastLegs
pub mod DetoursMade
pub mod Splits
pub mod EvenShares
pub mod Routes
