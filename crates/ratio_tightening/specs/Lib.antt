pub mod Finer
pub mod Polishing
pub mod Tightened
pub mod Offering
pub mod Laws
