pub mod Candidates
pub mod Attempts
pub mod RouteLimits
pub mod Attack
pub mod Challenge
pub mod Laws
