pub mod Moves
pub mod Loads
pub mod Search
pub mod Shifting
pub mod Pairs
pub mod Settling
pub mod Laws
