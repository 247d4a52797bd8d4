pub mod Among
pub mod Mixing
pub mod Passed
pub mod PathLinks
pub mod Shifted
pub mod Squares
pub mod SweepLoads
pub mod Turning
pub mod Bounding
mod CheapestLoads
