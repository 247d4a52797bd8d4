mod Marking
mod LeastPaths
mod Lengthening
mod Splitting
mod Balancing
mod Sweeping
mod RoundsMade
pub mod Existence
mod WayLoads
