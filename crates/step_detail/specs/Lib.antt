pub mod Links
pub mod LeastCosts
pub mod Pairs
pub mod Paths
pub mod Breakdown
pub mod Laws
