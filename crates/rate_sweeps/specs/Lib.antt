pub mod Bounds
pub mod Choices
pub mod Descents
pub mod Lengths
pub mod Shifts
pub mod Sweeps
