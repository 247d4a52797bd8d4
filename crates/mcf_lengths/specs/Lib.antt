pub mod Rounds
pub mod Ways
pub mod Flow
pub mod Trees
pub mod Sweeps
pub mod Laws
