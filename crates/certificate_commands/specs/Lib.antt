pub mod CheckWitness
pub mod Attack
pub mod Challenge
pub mod Convert
pub mod Bounds
pub mod Reprice
pub mod Tighten
pub mod Outcome
